pub mod Puts
pub mod Fits
pub mod Obeying
pub mod Coursing
pub mod Taking
pub mod Writing
pub mod Betweens
