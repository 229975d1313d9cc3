pub mod Going
pub mod Counting
