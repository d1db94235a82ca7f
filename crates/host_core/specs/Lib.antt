pub mod Past
pub mod Refusals
pub mod Outside
pub mod Happens
pub mod Records
pub mod Laws
pub mod Samples
