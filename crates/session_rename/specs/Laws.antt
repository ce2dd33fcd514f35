pub mod Row
pub mod Call
