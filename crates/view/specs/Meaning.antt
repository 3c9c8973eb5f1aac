-- What a reader of the contracts has to believe.
pub mod Surd
pub mod Near
pub mod Outcome
