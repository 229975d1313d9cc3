pub mod Faults
pub mod Disks
pub mod Nodes
pub mod Told
