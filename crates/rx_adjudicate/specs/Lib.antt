-- Plumbing: which files there are.
pub mod Orders
pub mod Scopes
