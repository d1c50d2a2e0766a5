-- Proofs that an implementation owes and may cite from here only. Nothing here has to be read to know what is promised.
pub mod Least
pub mod Demands
pub mod Eased
pub mod Chosen
