pub mod Stopping
pub mod Reader
pub mod Replies
pub mod Keeping
pub mod Run
pub mod Laws
