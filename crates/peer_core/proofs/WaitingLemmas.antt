-- Lemmas on held messages that wait, `specs/Waiting.antt`.
pub mod Rightly
pub mod OneMore
pub mod Woken
pub mod Heard
