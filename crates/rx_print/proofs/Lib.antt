mod JsonGrammar
mod Worked
pub mod JsonPieces
pub mod JsonWords
pub mod Reading
pub mod Written
