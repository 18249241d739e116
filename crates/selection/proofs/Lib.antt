pub mod Picking
pub mod OwnRows
pub mod AddedRows
pub mod Answering
pub mod AllRows
pub mod Trees
pub mod Replies
