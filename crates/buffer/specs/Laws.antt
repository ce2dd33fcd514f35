pub mod Test
pub mod Numeral
pub mod Patch
pub mod Span
pub mod Zero
