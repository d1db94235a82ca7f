pub mod Moves
pub mod Entries
pub mod Changes
pub mod Results
pub mod Flats
pub mod Keys
pub mod Rows
pub mod Numbers
