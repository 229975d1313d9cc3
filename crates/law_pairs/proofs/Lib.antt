pub mod Holding
pub mod Going
pub mod Whole
