-- The exact mathematics: first what a reader must believe, then proofs, from whole numbers up to the uniqueness of the normal form.
pub mod Meaning
pub mod Whole
pub mod Algebra
pub mod Matrices
pub mod Cases
pub mod Rotation
pub mod Outcomes
