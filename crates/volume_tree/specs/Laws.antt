pub mod Form
pub mod Stored
pub mod Lent
pub mod Part
pub mod Climb
pub mod Search
pub mod Change
pub mod Answer
