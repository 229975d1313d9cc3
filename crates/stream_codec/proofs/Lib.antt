pub mod Steps
pub mod Bytes
pub mod Turns
pub mod Parts
pub mod Named
pub mod ReadBack
pub mod Reprinted
