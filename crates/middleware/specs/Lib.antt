pub mod Meaning
pub mod Listing
pub mod Serving
pub mod Runs
pub mod Records
pub mod Text
