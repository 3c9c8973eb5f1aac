-- The size of a number below 0, as the machine finds it, and numbers in a row.
pub mod Below
pub mod Row
