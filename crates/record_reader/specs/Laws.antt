pub mod Reader
pub mod Sound
pub mod SoundRecord
pub mod Complete
pub mod Exact
pub mod Fit
pub mod Answer
