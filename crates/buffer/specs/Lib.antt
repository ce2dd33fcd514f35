pub mod Geometry
pub mod Numeral
pub mod Laws
pub mod Patch
pub mod Decoded
pub mod Code
