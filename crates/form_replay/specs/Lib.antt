pub mod Reply
pub mod Replay
pub mod Headline
pub mod Samples
