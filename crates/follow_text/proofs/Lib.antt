pub mod Edges
pub mod Cutting
pub mod Rows
pub mod Edits
pub mod Joining
