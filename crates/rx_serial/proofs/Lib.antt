pub mod Awaited
pub mod Counting
pub mod Holders
pub mod Longest
pub mod Marked
pub mod Places
pub mod Refills
pub mod Unique
