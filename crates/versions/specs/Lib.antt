pub mod Pairs
pub mod Writes
pub mod Histories
pub mod Links
pub mod Chained
pub mod Meaning
