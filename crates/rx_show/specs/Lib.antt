-- Plumbing: which files there are.
pub mod Bytes
pub mod Found
pub mod Lines
pub mod PlanLines
pub mod ReplyLines
pub mod ResponseFile
pub mod Responses
pub mod Sample
pub mod Table
