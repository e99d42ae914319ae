mod Cases
pub mod Files
pub mod Following
pub mod Readings
pub mod Spellings
pub mod Steps
