pub mod Opened
pub mod Played
pub mod Drained
