pub mod Steps
pub mod ExactTotals
pub mod Lookups
pub mod WindowCells
pub mod CellOrder
pub mod Feeds
pub mod Held
pub mod Ends
pub mod Joins
pub mod Reach
pub mod Panes
pub mod Step
pub mod Standing
mod Flat
mod Kept
pub mod Walk
pub mod Resumes
pub mod Orderly
