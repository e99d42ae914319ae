pub mod Added
pub mod Ascends
pub mod Blanks
pub mod Documents
pub mod DrugLists
pub mod OneReading
pub mod PlanLists
pub mod Products
pub mod Shares
mod WorkedSheets
mod WorkedText
