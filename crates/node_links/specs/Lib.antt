pub mod Laws
pub mod Linking
