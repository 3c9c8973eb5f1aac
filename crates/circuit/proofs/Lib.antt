-- Circuits: Meaning is what a reader must believe, the others are for proofs.
pub mod Lines
pub mod Stuck
pub mod Gates
pub mod Cases
