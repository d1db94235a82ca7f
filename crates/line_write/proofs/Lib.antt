pub mod PlainTexts
