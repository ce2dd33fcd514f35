pub mod Rows
pub mod Called
pub mod Laws
