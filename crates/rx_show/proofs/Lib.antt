pub mod Listed
pub mod ResponseFile
