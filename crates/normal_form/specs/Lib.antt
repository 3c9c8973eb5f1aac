-- What jobs 3 and 5 promise (`Meaning`), and the proofs of it.
pub mod Meaning
pub mod Unique
pub mod Ways
pub mod Answers
pub mod Emptied
pub mod Theorems
pub mod Skipped
pub mod Again
pub mod Alike
pub mod Identity
pub mod Phase
pub mod Freed
pub mod Cheapest
pub mod Enough
