-- Triples in 64 bits: what jobs 1 and 2 promise (`Meaning`), and what their proofs lean on.
pub mod Meaning
pub mod Triples
pub mod Checks
pub mod Checked
pub mod Acts
pub mod Reducing
pub mod Letters
pub mod Reading
pub mod Unique
pub mod Results
pub mod Useless
pub mod Skipped
