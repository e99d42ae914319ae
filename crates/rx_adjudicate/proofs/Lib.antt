pub mod Asked
pub mod Finished
pub mod Names
