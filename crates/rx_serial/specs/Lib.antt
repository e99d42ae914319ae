-- Plumbing: which files there are.
pub mod Fills
pub mod Named
pub mod Underway
