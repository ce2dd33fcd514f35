pub mod Named
pub mod Noted
