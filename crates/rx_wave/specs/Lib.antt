-- Plumbing: which files there are.
pub mod AtDoors
pub mod Decoding
pub mod Jobs
pub mod Workers
