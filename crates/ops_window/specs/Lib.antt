pub mod Windows
pub mod Feeding
pub mod Saving
