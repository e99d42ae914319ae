-- Plumbing: which files there are.
pub mod Dates
pub mod IgnoredLines
pub mod Reports
pub mod Runs
pub mod Some
mod Worked
