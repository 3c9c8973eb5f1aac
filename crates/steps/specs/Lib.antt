-- The steps of docs/SCOPE.md, Synthesis: what a step is and how many there are (`Meaning`), why they end, what they write and how much. Proofs over
-- these definitions and those of `exact`.
pub mod Meaning
pub mod Residues
pub mod Step
pub mod Closing
pub mod Steps
pub mod Counts
pub mod Meets
