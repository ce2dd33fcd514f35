pub mod Order
pub mod Read
