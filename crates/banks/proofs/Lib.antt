pub mod Others
pub mod Calls
pub mod Writes
mod One
pub mod Settles
