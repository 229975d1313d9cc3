pub mod Promised
pub mod Answered
pub mod Flags
