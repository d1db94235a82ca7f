pub mod Beginnings
pub mod Frames
pub mod Faults
