-- Plumbing: which files there are.
pub mod Asked
pub mod Faults
pub mod Paths
pub mod Syntax
