pub mod Reader
pub mod Fit
pub mod Found
