pub mod Slot
pub mod Head
pub mod Order
pub mod Loop
pub mod Checks
pub mod Form
