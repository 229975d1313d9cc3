pub mod Faults
pub mod Edges
pub mod Memory
