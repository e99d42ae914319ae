-- Plumbing: which files there are.
pub mod Fields
pub mod Lists
pub mod Parts
