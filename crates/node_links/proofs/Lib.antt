pub mod Kept
pub mod Lawful
mod Looping
mod Viewing
pub mod Within
