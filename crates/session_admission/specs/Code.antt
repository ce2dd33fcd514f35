pub mod Admitted
pub mod Objects
