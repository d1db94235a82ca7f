pub mod Renewed
pub mod Settled
pub mod Sealing
