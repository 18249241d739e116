pub mod FirstField
pub mod RowFaults
