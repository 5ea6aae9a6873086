pub mod Places
pub mod Copied
pub mod Kept
pub mod Lawful
