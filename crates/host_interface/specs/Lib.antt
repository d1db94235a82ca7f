pub mod Endings
pub mod Renewed
pub mod Settled
pub mod Sealing
pub mod HappensAt
pub mod Admitted
pub mod Rows
pub mod Foreseen
