-- Whole numbers: ring laws, linear facts, parities, sizes, and signed machine arithmetic.
pub mod Parity
pub mod Twos
