pub mod Body
pub mod Reading
pub mod Steps
pub mod Store
pub mod Replay
pub mod Faults
