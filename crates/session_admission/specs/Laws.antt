pub mod Admitted
pub mod Object
pub mod Turn
