pub mod Chunks
pub mod Packed
pub mod Rows
pub mod RowLends
pub mod Lends
