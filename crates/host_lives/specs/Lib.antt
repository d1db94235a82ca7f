pub mod Lives
pub mod Files
pub mod Laws
pub mod Samples
