-- Whole numbers: ring laws, linear facts, parities, sizes, and signed machine arithmetic.
pub mod Laws
pub mod Linear
pub mod Parity
pub mod Size
pub mod Machine
pub mod Flipped
pub mod Twos
