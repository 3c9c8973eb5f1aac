-- How long normal words and phase-free words become: the most letters for so many letters read.
pub mod Growth
pub mod Longest
