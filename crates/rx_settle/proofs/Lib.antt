-- Laws of the definitions in `specs/`.
pub mod Firsts
pub mod Names
pub mod Tallied
pub mod Tallies
