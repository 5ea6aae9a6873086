pub mod Served
pub mod Runs
pub mod Recorded
