pub mod Joins
pub mod Sides
pub mod Keeping
pub mod RowsOut
pub mod Groups
pub mod Saving
