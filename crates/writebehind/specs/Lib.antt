pub mod Loss
pub mod Laws
