pub mod Telling
pub mod Showing
pub mod Looking
pub mod Tellers
pub mod Samples
