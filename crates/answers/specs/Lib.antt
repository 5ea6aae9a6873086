pub mod Buffers
pub mod Printing
