mod Following
mod Batching
mod Ticking
mod Marks
