pub mod Lookup
pub mod Code
pub mod Laws
