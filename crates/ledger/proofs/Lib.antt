pub mod Upward
pub mod Items
