pub mod Parts
pub mod Inputs
pub mod Upgrades
pub mod Framed
