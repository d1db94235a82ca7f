mod Again
pub mod Ahead
mod Changes
mod MadeBodies
mod Opening
mod Putting
mod Readings
mod Replays
mod Saving
mod Short
mod Taken
