pub mod Frames
pub mod Seals
pub mod Laws
