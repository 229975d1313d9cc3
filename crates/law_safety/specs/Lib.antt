pub mod Plans
pub mod Keeps
pub mod Holders
pub mod Promises
