-- Matrices over a power of root two: when two are the same, words, determinants, triples, and least exponents.
pub mod Determinant
pub mod Triples
pub mod Divided
pub mod Least
