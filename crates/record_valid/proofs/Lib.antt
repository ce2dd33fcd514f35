pub mod Linked
pub mod Lists
