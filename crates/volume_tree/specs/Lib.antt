pub mod Volume
pub mod Form
pub mod Stored
pub mod Answer
pub mod Code
pub mod Laws
