pub mod Evens
pub mod Sent
pub mod Plans
