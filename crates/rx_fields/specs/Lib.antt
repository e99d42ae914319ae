-- Plumbing: which files there are.
pub mod Amount
pub mod Bounds
pub mod Calendar
pub mod Clock
pub mod Codes
pub mod Digits
pub mod Fault
pub mod Numbered
pub mod Order
pub mod Padded
pub mod Text
pub mod TimeOfDay
