-- Plumbing: which files there are.
pub mod CodesPassed
pub mod Header
pub mod Lines
pub mod Log
pub mod Members
pub mod Numbers
pub mod RunTraffic
pub mod Settlement
pub mod Steps
pub mod Sums
pub mod Times
pub mod Traffic
