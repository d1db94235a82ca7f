pub mod RunLemmas
pub mod AnswerLemmas
pub mod Lists
pub mod ByCaller
pub mod Crossing
pub mod Passing
mod Keeps
mod Ways
mod Passes
