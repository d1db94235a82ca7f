pub mod Past
pub mod Happens
pub mod Laws
pub mod Samples
