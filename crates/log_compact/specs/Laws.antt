pub mod Move
pub mod Free
