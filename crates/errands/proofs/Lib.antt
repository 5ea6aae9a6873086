pub mod Asked
pub mod Looked
pub mod Seats
pub mod Written
pub mod Told
