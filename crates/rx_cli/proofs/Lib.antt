pub mod DraftLemmas
pub mod GivenTexts
pub mod NamedFault
pub mod PathLemmas
pub mod SubcommandMet
