mod Bits
mod AnyWords
pub mod Scans
pub mod Laws
