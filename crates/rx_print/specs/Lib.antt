-- Plumbing: which files there are.
pub mod CodeList
pub mod Dates
pub mod Decimal
pub mod Escape
pub mod Hexadecimal
pub mod JsonData
pub mod Money
pub mod Page
pub mod Said
