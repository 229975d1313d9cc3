pub mod Buckets
pub mod FitNodes
pub mod Fits
pub mod Messages
pub mod Stepped
