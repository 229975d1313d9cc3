pub mod Caches
pub mod Columns
pub mod Names
pub mod Nodes
pub mod Shapes
