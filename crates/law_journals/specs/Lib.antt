pub mod Stops
pub mod Snapshots
pub mod Entries
pub mod Prefixes
pub mod Views
