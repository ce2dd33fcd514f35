pub mod Candidates
pub mod Closed
