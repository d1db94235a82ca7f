pub mod Forms
pub mod Command
pub mod Plain
pub mod Stored
pub mod Editor
