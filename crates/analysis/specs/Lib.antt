pub mod Ranges
pub mod Questions
pub mod Laws
pub mod Answers
pub mod Responses
pub mod Choices
pub mod Comparisons
pub mod Lemmas
