-- The rotation of a triple and its T count: what is promised, and the machine's numbers tied to the exact ones.
pub mod Meaning
pub mod Columns
pub mod Turned
pub mod Shared
pub mod Ways
pub mod Unique
pub mod Answers
pub mod Useless
