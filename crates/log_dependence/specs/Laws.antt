pub mod Reached
pub mod Noted
