pub mod Boards
pub mod WriteSets
pub mod Pairs
pub mod Meaning
pub mod Laws
