pub mod Closing
pub mod Frame
