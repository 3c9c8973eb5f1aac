-- SCOPE's cases, computed.
pub mod Letters
