pub mod Parts
pub mod Gathering
pub mod Summing
pub mod Extremes
pub mod Tasking
pub mod Answering
