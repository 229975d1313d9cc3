pub mod Steps
pub mod Events
pub mod Runs
pub mod Journals
pub mod Telling
pub mod Replayed
pub mod Checked
