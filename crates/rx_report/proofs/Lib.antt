-- Laws of the definitions in `specs/`.
pub mod AddedUp
pub mod Counted
pub mod EachItem
pub mod Falling
pub mod Grouping
pub mod LinesRead
pub mod OwnLines
pub mod Parted
pub mod Putting
pub mod ReadAgain
