pub mod Elements
pub mod Mapped
pub mod Places
pub mod Truths
pub mod Somes
pub mod Each
