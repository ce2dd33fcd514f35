pub mod Send
pub mod Turn
