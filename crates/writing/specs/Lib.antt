-- What is put into a buffer for syllables and for a tail, and the proofs of it.
pub mod Put
pub mod Spelt
pub mod Runs
pub mod Endings
pub mod Codes
