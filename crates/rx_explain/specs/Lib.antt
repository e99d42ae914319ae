-- Plumbing: which files there are.
pub mod Around
pub mod Before
pub mod Explained
pub mod Found
pub mod Listed
pub mod Names
pub mod Opens
pub mod Parts
pub mod Reckoned
pub mod Seen
pub mod Shown
pub mod Sources
pub mod Spots
pub mod Traces
pub mod Workings
