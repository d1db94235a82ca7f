pub mod Appending
mod Behind
pub mod Bodies
pub mod Buffers
mod Chunks
mod Crashes
mod Gates
mod Histories
pub mod Moments
pub mod Readings
pub mod Tearing
mod Torn
