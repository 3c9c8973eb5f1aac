-- SCOPE's cases, computed.
pub mod Letters
pub mod NormalTest
pub mod Table
pub mod PhaseFree
pub mod Outside
pub mod Rotations
