pub mod Merging
pub mod Ordered
pub mod Sides
pub mod Standing
pub mod Told
