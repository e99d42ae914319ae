pub mod Bits
pub mod Cuts
pub mod Counts
pub mod Puts
pub mod Runs
pub mod Fields
pub mod Names
pub mod Tables
pub mod Written
pub mod WrittenFields
pub mod WrittenHeader
pub mod WrittenRequest
pub mod Faults
pub mod Readings
pub mod Lists
pub mod Bodies
pub mod Strays
mod WorkedDoors
