mod Rounding
mod Operations
mod Casting
mod Units
mod Powers
mod Error
mod Product
mod Signs
mod Whole
mod Zero
mod Numbers
mod Branches
mod Job
pub mod Root
pub mod Size
pub mod Tied
pub mod Unique
pub mod Cases
pub mod Useless
