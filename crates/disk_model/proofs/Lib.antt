pub mod Looks
pub mod Moments
mod Paged
pub mod Parts
mod Records
pub mod Runs
