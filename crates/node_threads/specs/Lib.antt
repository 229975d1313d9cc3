pub mod Halls
pub mod Lives
