mod Accepting
mod Counting
mod Gathered
mod Known
pub mod Lawful
mod Searching
mod Stamping
pub mod Standing
mod Waiting
