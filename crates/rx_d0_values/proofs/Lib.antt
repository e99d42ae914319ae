pub mod Decided
pub mod Echoes
