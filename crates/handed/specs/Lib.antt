-- Arrays of numbers: what they stand for, and bytes in them as they are read back.
pub mod Meaning
pub mod Numbers
