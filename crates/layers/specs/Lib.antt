pub mod Layers
pub mod Held
pub mod Lists
pub mod Outcomes
pub mod Piles
pub mod Built
pub mod Lemmas
