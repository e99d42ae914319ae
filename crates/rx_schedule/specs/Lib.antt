-- Plumbing: which files there are.
pub mod Billed
pub mod Footprints
pub mod Jobs
pub mod Links
pub mod Machine
pub mod Marked
pub mod Mentions
pub mod Queues
pub mod Shards
pub mod Used
pub mod Waves
