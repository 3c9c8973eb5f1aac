-- Synthesis: what job 4 promises (`Meaning`), and how its functions meet the steps of crate `steps`.
pub mod Meaning
pub mod Code
pub mod Closes
pub mod Answer
