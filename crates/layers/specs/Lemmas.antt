-- Proofs that an implementation owes and may cite from here only. Nothing here has to be read to know what is promised.
pub mod Layered
pub mod Paired
pub mod Lawful
