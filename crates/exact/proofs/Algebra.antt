-- Algebra over any commutative ring, and over ℤ[omega] and ℤ[root two].
pub mod Ring
pub mod Solver
pub mod Power
pub mod Omega
pub mod RootTwo
pub mod RootPower
pub mod OmegaPower
pub mod Norm
pub mod Over
pub mod Twos
