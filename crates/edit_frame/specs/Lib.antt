pub mod Spelling
pub mod Fields
pub mod Reading
pub mod Spells
pub mod Fail
pub mod Gives
pub mod Splitter
pub mod Lent
