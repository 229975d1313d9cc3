pub mod Sights
pub mod Places
