-- Plumbing: which files there are.
pub mod Desks
pub mod Invariant
pub mod Kept
pub mod Moved
