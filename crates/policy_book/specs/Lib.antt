pub mod Lists
pub mod Rights
pub mod Operation
pub mod Entry
pub mod Fault
pub mod Policy
pub mod Reach
pub mod Tables
