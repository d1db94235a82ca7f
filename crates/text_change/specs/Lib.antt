pub mod Rows
pub mod Seen
pub mod Told
pub mod Ahead
