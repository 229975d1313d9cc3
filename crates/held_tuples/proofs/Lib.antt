mod Dropping
mod Joined
pub mod Parts
mod Searching
