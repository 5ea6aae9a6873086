pub mod Begun
pub mod Meaning
pub mod Lawful
