pub mod WorldLines
pub mod TakenLines
pub mod OwnEdits
