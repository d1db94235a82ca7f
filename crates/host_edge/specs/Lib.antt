pub mod Replies
pub mod Gifts
pub mod Rooms
pub mod Taken
pub mod Slowed
