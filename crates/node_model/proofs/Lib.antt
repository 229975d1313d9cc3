pub mod Mailed
pub mod Viewed
