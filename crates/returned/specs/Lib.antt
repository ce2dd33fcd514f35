pub mod Laws
pub mod Refusal
pub mod Returned
pub mod Shapes
