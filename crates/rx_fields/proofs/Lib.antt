-- Laws of the definitions in `specs/`.
pub mod AmountLaws
pub mod CodeLaws
pub mod DateFaults
pub mod DateLaws
pub mod DayNumbers
pub mod DigitLaws
pub mod IdLaws
pub mod OrderLaws
pub mod StampLaws
pub mod WordLaws
