pub mod Apply
pub mod Spelling
