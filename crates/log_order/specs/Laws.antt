pub mod Precede
pub mod Close
pub mod Turn
