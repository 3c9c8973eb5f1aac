-- A text walked: what is promised, and the laws of it.
pub mod Reading
pub mod Chosen
pub mod ReadingLaws
