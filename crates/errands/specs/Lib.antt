pub mod Outcomes
pub mod Places
pub mod Own
pub mod Replay
pub mod Copies
