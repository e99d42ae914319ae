-- Plumbing: which files there are.
pub mod Codes
pub mod Counts
pub mod Kept
pub mod LastLine
pub mod Lots
