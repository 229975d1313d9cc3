pub mod Known
pub mod Runs
pub mod Ended
pub mod Asked
pub mod Paired
pub mod Commands
pub mod Lived
pub mod Words
