pub mod Loop
pub mod Order
