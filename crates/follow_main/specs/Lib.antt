pub mod Addresses
pub mod Ends
pub mod Lines
pub mod Marks
pub mod Sending
pub mod Writing
