-- What each export promises, over the promises of the jobs (`Meaning`), and what its proof leans on; `Beginning` is for the bench program.
pub mod Meaning
pub mod Handed
pub mod Record
pub mod Beginning
pub mod Unique
