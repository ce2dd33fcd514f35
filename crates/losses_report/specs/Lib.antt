pub mod Report
pub mod Laws
pub mod Pass
pub mod Run
pub mod Cases
