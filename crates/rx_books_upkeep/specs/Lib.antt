-- Plumbing: which files there are.
pub mod AgedText
pub mod Ageing
pub mod Batches
pub mod ChangeKinds
pub mod Figured
pub mod LoadedText
pub mod Loading
pub mod QuickTable
pub mod Report
pub mod Table
pub mod TableAnswer
pub mod TableField
pub mod TableLine
pub mod TextFault
pub mod Texts
