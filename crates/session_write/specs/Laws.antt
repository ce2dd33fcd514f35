pub mod Range
pub mod Call
