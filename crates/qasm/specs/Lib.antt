-- OpenQASM written and read: Meaning is what is promised, the others are for proofs, and what follows.
pub mod Meaning
pub mod WriterWays
pub mod ReaderWays
pub mod Unique
pub mod RoundTrip
pub mod Useless
