-- What a reader must believe of demand 3, over the jobs and over the exports, and of `agree`.
pub mod Demand3
pub mod Exports
pub mod Agree
