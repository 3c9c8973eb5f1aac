-- Synthesis: what job 4 promises (`Meaning`), and how its functions meet the steps of crate `steps`.
pub mod Counted
pub mod Loop
pub mod Unique
pub mod CodeLaws
pub mod Closes
pub mod Parts
pub mod AnswerLaws
pub mod Enough
pub mod OneMatrix
pub mod Cheapest
pub mod Useless
pub mod Results
