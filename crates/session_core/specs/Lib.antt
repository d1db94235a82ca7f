pub mod Events
pub mod Session
pub mod Pieces
pub mod Clearing
