pub mod Piece
pub mod Edit
pub mod Request
pub mod History
pub mod ShortRow
pub mod PackedBytes
pub mod PackedEdit
pub mod LentEdit
