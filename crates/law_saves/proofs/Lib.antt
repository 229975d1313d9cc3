pub mod Going
pub mod True
pub mod Widths
pub mod Taking
pub mod Told
pub mod Whole
