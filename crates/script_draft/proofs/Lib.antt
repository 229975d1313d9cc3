mod Actors
mod Changes
mod Columns
mod Downs
mod Faults
mod Found
pub mod Lasts
pub mod Names
mod Nodes
mod Shapes
