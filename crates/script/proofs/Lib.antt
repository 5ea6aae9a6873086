pub mod Plays
pub mod SoFar
