-- Plumbing: which files there are.
pub mod Absent
pub mod Answered
pub mod Claims
pub mod Codes
pub mod Counted
pub mod ExplanationData
pub mod Figures
pub mod Json
pub mod Reasons
pub mod Rejections
pub mod RequestField
pub mod Said
pub mod Texts
pub mod Words
