-- Algebra over any commutative ring, and over ℤ[omega] and ℤ[root two].
pub mod RootTwo
pub mod RootPower
pub mod OmegaPower
pub mod Over
pub mod Twos
