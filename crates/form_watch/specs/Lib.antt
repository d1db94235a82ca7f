pub mod Run
pub mod Reads
pub mod Watch
pub mod Workers
