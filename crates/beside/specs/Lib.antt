pub mod Sides
pub mod Halves
