pub mod Listed
pub mod OnlyList
pub mod Evaluated
pub mod Replies
pub mod AlikeArrays
