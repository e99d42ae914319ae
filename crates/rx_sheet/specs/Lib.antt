-- Plumbing: which files there are.
pub mod Drugs
pub mod Fault
pub mod Figures
pub mod Names
pub mod Plans
pub mod PlansFault
pub mod Said
pub mod SheetText
pub mod Values
