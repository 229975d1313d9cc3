pub mod Streams
pub mod Steps
pub mod Texts
pub mod Ways
pub mod Mills
pub mod Clients
pub mod Lines
pub mod Givings
