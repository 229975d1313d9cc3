mod Disks
mod Nodes
pub mod Told
