-- Demand 3: normalising a word's letters and synthesising from its multiplied-out matrix agree.
pub mod Meaning
