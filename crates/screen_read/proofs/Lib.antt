pub mod Lists
mod Rolls
mod Boards
mod Growing
pub mod Shows
pub mod Crossing
