pub mod Answers
pub mod Runs
pub mod Members
pub mod Totals
