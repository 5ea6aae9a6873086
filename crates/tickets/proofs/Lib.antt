pub mod Rising
pub mod Playing
pub mod Sets
pub mod Found
