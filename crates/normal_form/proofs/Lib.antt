-- Proofs that nothing of specs/ rests on.
pub mod Enough
pub mod Results
