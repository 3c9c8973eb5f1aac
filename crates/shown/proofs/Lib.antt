-- Numbers in a row.
pub mod Grown
