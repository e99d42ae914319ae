-- Plumbing: which files there are.
pub mod Checked
pub mod Faults
pub mod Found
pub mod Ignored
pub mod Inputs
pub mod Numbered
pub mod Refusals
pub mod Report
pub mod Stamp
pub mod Stop
pub mod Warned
pub mod Wording
