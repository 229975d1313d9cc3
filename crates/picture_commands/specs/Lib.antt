pub mod Endings
pub mod Replays
