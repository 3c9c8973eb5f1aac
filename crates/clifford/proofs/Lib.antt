-- What job 6 promises (`Meaning`), and the proofs of it.
pub mod Unique
pub mod Arguments
pub mod Remainder
pub mod Words
pub mod Tables
pub mod Moves
pub mod Cliffords
