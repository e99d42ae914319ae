-- Plumbing: which files there are.
pub mod Agreement
pub mod Closed
pub mod Faults
pub mod Gathered
pub mod Opened
pub mod Taken
