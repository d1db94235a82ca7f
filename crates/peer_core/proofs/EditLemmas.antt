-- Lemmas on a peer's own edits, `specs/Local.antt`.
pub mod Pieces
pub mod Counted
pub mod Law
