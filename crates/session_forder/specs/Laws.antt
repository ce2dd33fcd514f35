pub mod List
pub mod Call
