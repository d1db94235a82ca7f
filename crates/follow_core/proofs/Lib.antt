pub mod Kept
pub mod Saving
pub mod PassedInOrder
pub mod Repeats
pub mod Samples
