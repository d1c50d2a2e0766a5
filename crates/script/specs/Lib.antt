pub mod Answers
pub mod Laws
pub mod Refusals
pub mod Sessions
pub mod Turns
pub mod Works
pub mod Begun
