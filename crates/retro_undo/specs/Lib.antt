pub mod Undo
pub mod Part
pub mod Listed
pub mod Sweep
