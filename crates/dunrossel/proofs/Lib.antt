-- Proofs that nothing of specs/ rests on.
pub mod Beginning
