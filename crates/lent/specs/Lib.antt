-- What is put into lent bytes, and the proofs of it.
pub mod Written
