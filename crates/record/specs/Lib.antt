pub mod Kind
pub mod Operation
pub mod Fields
pub mod Decode
