-- Plumbing: which files there are.
pub mod Calls
pub mod Files
pub mod Patches
pub mod Pieces
pub mod Reading
pub mod Writing
