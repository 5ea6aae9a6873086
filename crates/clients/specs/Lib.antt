pub mod Committed
pub mod Races
pub mod AtBank
