-- What letters give a slot's record, how that is told from the record alone, and what the two calls promise.
pub mod Meaning
pub mod Tests
pub mod Standing
pub mod Ways
