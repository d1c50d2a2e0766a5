pub mod Cuts
pub mod Checks
pub mod Joins
pub mod Texts
pub mod Spelled
