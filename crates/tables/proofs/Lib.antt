pub mod FirstField
pub mod RowsRead
pub mod ReadReturns
pub mod Accepted
