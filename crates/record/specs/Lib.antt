-- The bench record and its answer: Meaning is what a reader must believe, the others are for proofs.
pub mod Meaning
pub mod Format
pub mod Read
pub mod LineLaws
pub mod RecordLaws
pub mod Returns
pub mod AnswerLaws
pub mod Longest
mod Cases
