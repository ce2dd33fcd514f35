pub mod Apply
pub mod Spelling
pub mod Local
