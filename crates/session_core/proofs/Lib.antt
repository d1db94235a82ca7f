pub mod Talks
pub mod Clearings
