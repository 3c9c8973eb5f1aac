-- Ladders of refusals: two allowed outcomes are equal, and how one outcome is made of another.
pub mod Ladder
pub mod Places
pub mod Checked
pub mod Endings
pub mod Lent
pub mod Handed
