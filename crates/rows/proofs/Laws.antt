pub mod Rows
pub mod Stored
pub mod Due
pub mod Walk
