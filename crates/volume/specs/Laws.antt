pub mod Applied
pub mod Kind
pub mod Rename
