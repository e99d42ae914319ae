-- Plumbing: which files there are.
pub mod Billed
pub mod CodeList
pub mod Echoed
pub mod Filled
pub mod Kept
pub mod Keys
pub mod Listed
pub mod Priced
pub mod Same
