pub mod Holds
pub mod Rows
pub mod Indexes
pub mod FirstDue
