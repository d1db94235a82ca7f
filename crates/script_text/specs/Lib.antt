pub mod Peers
pub mod Line
pub mod Laws
