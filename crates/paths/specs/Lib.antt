pub mod Path
pub mod Laws
