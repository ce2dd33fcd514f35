pub mod Linked
pub mod World
