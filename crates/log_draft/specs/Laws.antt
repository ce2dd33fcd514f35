pub mod Draft
pub mod Issued
