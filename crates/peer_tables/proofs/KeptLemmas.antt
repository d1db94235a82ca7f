-- Lemmas on what is kept of a journal, `specs/Kept.antt`.
pub mod Tables
pub mod Places
pub mod OneMore
pub mod Reads
pub mod Follows
pub mod Joined
pub mod States
pub mod Entered
pub mod Advanced
pub mod Least
pub mod Text
