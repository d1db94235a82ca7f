pub mod Closing
pub mod Saving
pub mod Sealing
pub mod Users
