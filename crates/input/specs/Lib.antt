-- The words of the contracts on reading.
pub mod Counts
