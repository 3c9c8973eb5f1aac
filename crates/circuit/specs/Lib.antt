-- Circuits: Meaning is what a reader must believe, the others are for proofs.
pub mod Meaning
pub mod Lines
pub mod Stuck
