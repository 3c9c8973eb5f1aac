-- Decimal numbers in bytes: what their readers and writers promise, and the laws of it.
pub mod Decimal
pub mod Format
pub mod Read
pub mod ReadLaws
pub mod Write
