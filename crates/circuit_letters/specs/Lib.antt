-- A right text's letters put: what is promised, and the laws of it.
pub mod Letters
pub mod LettersLaws
