-- A word measured, and its lines put: what is promised, and the laws of it.
pub mod Writing
pub mod WritingLaws
