-- Numbers p + q·root two of 64-bit p and q, and vectors of three, tied to the exact ones.
pub mod Meaning
pub mod Code
pub mod Common
