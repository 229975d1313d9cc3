pub mod Spared
pub mod Finishing
