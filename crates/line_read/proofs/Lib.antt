pub mod RowWords
pub mod DigitLemmas
pub mod Escapes
pub mod Passing
pub mod FormedSteps
pub mod SpelledWords
pub mod TextTests
