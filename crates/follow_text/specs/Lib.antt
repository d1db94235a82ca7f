pub mod Letters
pub mod Rows
pub mod Shown
pub mod Edits
pub mod Tracked
pub mod Joins
