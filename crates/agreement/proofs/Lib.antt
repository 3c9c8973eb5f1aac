-- Demand 3: normalising a word's letters and synthesising from its multiplied-out matrix agree.
pub mod Jobs
pub mod Calls
pub mod Demand3
pub mod AgreeLaws
pub mod Ways
pub mod Unique
pub mod Identity
pub mod Again
pub mod Steps
pub mod Tees
pub mod Phase
pub mod Cheapest
pub mod Enough
pub mod Slots
pub mod Results
