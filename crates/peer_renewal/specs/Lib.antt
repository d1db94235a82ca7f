pub mod Coverage
pub mod Cutting
pub mod Writing
pub mod Extents
pub mod Operations
pub mod Renewal
pub mod Laws
