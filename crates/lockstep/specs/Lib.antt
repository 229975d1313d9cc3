pub mod Faults
pub mod Locking
pub mod Ends
