pub mod Line
pub mod Turns
