-- The steps of docs/SCOPE.md, Synthesis: what a step is and how many there are (`Meaning`), why they end, what they write and how much. Proofs over
-- these definitions and those of `exact`.
pub mod Residues
pub mod Step
pub mod Closing
pub mod Steps
pub mod Followed
pub mod Exactly
pub mod Counts
pub mod Synthesised
pub mod Tees
pub mod Meets
pub mod Cases
