pub mod Message
pub mod Formed
pub mod Missing
pub mod Same
pub mod Packed
