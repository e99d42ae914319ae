-- Plumbing: which files there are.
pub mod Ascending
pub mod Few
pub mod FewLends
pub mod InsertError
pub mod Joined
pub mod Near
pub mod Orders
pub mod Overlaid
pub mod Runs
pub mod Slots
