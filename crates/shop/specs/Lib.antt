pub mod Shop
