-- What a reader must believe of the exports and of the bench program.
pub mod Exports
pub mod Bench
