mod Refilled
pub mod Marked
