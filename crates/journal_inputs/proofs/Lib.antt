pub mod Refused
pub mod ByParts
pub mod ReadBack
pub mod FramedParts
pub mod FramedBack
