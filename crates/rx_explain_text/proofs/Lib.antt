-- Lemmas of the words of an explanation.
mod ExplanationRead
mod JsonNames
pub mod Largest
mod Worked
pub mod SameSaid
