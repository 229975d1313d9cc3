pub mod Emitting
pub mod Laws
