pub mod Places
pub mod Beside
pub mod Keys
pub mod FirstLines
