-- Plumbing: which files there are.
pub mod Accounts
pub mod Adding
pub mod AddsUp
pub mod ByNet
pub mod Cells
pub mod Groups
pub mod Lines
pub mod LinesData
pub mod ReadBack
pub mod Texts
