pub mod Change
pub mod Issued
pub mod File
