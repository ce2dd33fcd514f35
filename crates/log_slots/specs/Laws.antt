pub mod Slot
pub mod Program
pub mod Head
