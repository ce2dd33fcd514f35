pub mod Runs
pub mod Host
pub mod Called
pub mod Wired
pub mod Linked
