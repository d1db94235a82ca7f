-- Lemmas on the answers of a peer, `specs/Answers.antt`.
pub mod Refusals
pub mod Edits
pub mod Entries
pub mod Received
pub mod Settled
pub mod Rows
pub mod Causes
