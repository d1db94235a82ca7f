pub mod PieceRow
pub mod Histories
