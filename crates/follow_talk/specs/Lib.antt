pub mod InputRows
pub mod OutputRows
pub mod Laws
pub mod Mirrors
pub mod Saying
pub mod Sending
