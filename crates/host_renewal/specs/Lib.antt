pub mod Faults
pub mod Formers
pub mod Room
pub mod Steps
