mod Shows
mod Sounds
mod OwnEdits
pub mod Samples
