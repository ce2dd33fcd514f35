pub mod Entry
pub mod Cases
pub mod Stored
pub mod Write
pub mod Laws
