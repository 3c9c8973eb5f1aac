-- Ring numbers of 64-bit coefficients, tied to the exact ones.
pub mod Meaning
pub mod Number
pub mod Code
pub mod Parities
pub mod Divided
pub mod Trailing
pub mod Display
