pub mod Streams
pub mod Settling
pub mod Outputs
pub mod Forms
