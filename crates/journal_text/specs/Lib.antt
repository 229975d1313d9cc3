pub mod Actors
pub mod Entries
pub mod Journals
pub mod Cuts
