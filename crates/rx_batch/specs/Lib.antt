-- Plumbing: which files there are.
pub mod Fault
pub mod Grammar
pub mod Header
pub mod Pieces
pub mod Reading
pub mod Writing
