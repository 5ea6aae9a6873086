pub mod Faults
pub mod Lines
pub mod Promise
pub mod Replies
pub mod Serving
