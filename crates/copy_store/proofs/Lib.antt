mod Writes
mod Plays
