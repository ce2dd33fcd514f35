pub mod Discard
