-- Plumbing: which files there are.
pub mod Pieces
pub mod Response
