-- The normal form: its tails, its syllables, that two normal words with one matrix are one, phase-free words, and that no spelling is cheaper.
pub mod Tails
pub mod Normal
pub mod PhaseFree
pub mod NoW
pub mod Cheapest
