-- The rotation that a matrix is: in vectors over ℤ[root two], by letters, with parities; its laws, sizes and least exponent; and worked out from a triple.
pub mod Sizes
pub mod Least
pub mod Worked
