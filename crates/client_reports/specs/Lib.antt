pub mod Json
pub mod Telling
