pub mod Checks
pub mod Loop
