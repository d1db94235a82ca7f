pub mod Pages
pub mod Ends
pub mod Roll
pub mod Rule
pub mod Tellings
pub mod Screen
