pub mod Keeps
pub mod Observed
pub mod Table
pub mod Host
pub mod Ran
