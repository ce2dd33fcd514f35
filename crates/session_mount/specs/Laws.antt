pub mod Mount
