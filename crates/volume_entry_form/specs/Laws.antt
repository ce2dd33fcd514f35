pub mod Test
pub mod Check
