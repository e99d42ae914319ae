-- Plumbing: which files there are.
pub mod Bytes
pub mod Options
pub mod Outcomes
pub mod Results
