pub mod Tallies
pub mod Seen
