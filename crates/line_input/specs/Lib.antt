pub mod Steps
pub mod Turn
