pub mod Fronts
pub mod Numerals
pub mod Reading
pub mod Scripts
pub mod Spelling
pub mod Tokens
