pub mod Parts
pub mod Found
pub mod Undoing
pub mod Steps
pub mod Within
