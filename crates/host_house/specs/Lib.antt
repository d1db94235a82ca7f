pub mod Household
pub mod Links
