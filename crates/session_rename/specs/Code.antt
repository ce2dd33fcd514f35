pub mod Rename
