pub mod Entry
pub mod Field
pub mod Write
