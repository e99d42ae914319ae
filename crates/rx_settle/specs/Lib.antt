-- Plumbing: which files there are.
pub mod Answers
pub mod Counting
pub mod Providers
pub mod Settlement
pub mod Together
