-- Plumbing: which files there are.
pub mod Fault
pub mod LineFits
pub mod LineReading
pub mod LineText
pub mod Printed
pub mod TextFault
pub mod TextReading
