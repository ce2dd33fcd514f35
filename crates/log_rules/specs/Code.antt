pub mod Slots
pub mod Flags
