pub mod Span
pub mod Zero
