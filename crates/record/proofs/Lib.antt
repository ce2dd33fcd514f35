pub mod Laws
pub mod Linked
