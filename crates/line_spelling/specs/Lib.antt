pub mod Line
pub mod Values
pub mod Steps
pub mod Answers
