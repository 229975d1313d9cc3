pub mod Asked
pub mod Streams
