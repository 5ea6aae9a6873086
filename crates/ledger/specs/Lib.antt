pub mod Words
pub mod Transactions
pub mod Sets
pub mod Records
pub mod Verdicts
