pub mod Inputs
pub mod Works
pub mod Worlds
