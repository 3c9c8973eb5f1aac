pub mod Meaning
pub mod Size
