-- Lemmas on sound peers, `specs/Sound.antt`.
pub mod Keys
pub mod Peers
pub mod Steps
