pub mod Pass
pub mod Report
