pub mod Points
pub mod Marking
pub mod Drawing
pub mod Counting
