pub mod Committing
pub mod Flowing
pub mod Messages
pub mod Recovery
pub mod Running
