pub mod Calls
pub mod Disk
pub mod Looking
pub mod Paging
pub mod Recorded
pub mod Recording
pub mod Synced
