-- Plumbing: which files there are.
pub mod Fault
pub mod Limits
pub mod Readers
pub mod Reading
pub mod Text
