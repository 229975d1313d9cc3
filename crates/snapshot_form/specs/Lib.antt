pub mod Bytes
pub mod Reading
pub mod Savable
pub mod Pieces
