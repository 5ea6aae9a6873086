pub mod Model
pub mod Faults
pub mod Works
pub mod Seated
