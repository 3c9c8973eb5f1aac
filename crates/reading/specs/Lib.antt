-- What a word is read as, letter by letter and in the program's array, and the proofs of it.
pub mod Readings
pub mod Pairs
pub mod Syllables
pub mod Steps
pub mod Held
pub mod Texts
pub mod Letters
pub mod Reader
