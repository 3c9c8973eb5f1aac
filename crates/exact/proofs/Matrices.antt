-- Matrices over a power of root two: when two are the same, words, determinants, triples, and least exponents.
pub mod Laws
pub mod Same
pub mod Star
pub mod Test
pub mod Words
pub mod Determinant
pub mod Phase
pub mod Triples
pub mod Parity
pub mod Divided
pub mod Least
pub mod Sizes
