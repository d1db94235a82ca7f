pub mod Report
pub mod Kept
pub mod Telling
