pub mod Amended
pub mod AmendedTests
pub mod BookValues
pub mod Changed
pub mod Families
pub mod Owned
pub mod SameBook
pub mod Valued
