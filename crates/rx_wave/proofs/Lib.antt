-- Laws of lists of results, of records in shards, and of a desk's end.
pub mod AtDesk
pub mod Coming
pub mod FoldReplies
pub mod Gathered
pub mod Joining
pub mod Keys
pub mod Lists
pub mod NextComing
pub mod Records
pub mod Replied
pub mod RunOn
pub mod Sent
