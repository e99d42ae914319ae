-- Plumbing: which files there are.
pub mod Bills
pub mod Codes
pub mod Cut
pub mod Doors
pub mod Headers
pub mod Known
pub mod Marks
pub mod Request
pub mod Slots
pub mod Steps
pub mod Values
pub mod Views
pub mod Written
