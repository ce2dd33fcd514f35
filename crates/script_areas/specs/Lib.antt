pub mod Poke
pub mod Digest
pub mod Laws
pub mod Length
