pub mod Sure
pub mod Counts
pub mod Newest
pub mod Settling
pub mod Held
