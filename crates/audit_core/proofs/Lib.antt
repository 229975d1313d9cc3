pub mod Differences
pub mod Foldings
pub mod Givens
pub mod Judgements
pub mod Lawful
pub mod Readings
pub mod Sayings
