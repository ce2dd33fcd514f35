pub mod Kind
pub mod Operation
pub mod List
pub mod Record
pub mod Decode
