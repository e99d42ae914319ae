-- Laws of the definitions in `specs/`.
pub mod Begins
pub mod Counted
pub mod FieldLines
pub mod Ids
pub mod Lengths
pub mod Marks
pub mod Numbers
pub mod Parted
