pub mod Columns
pub mod Folds
pub mod Ordered
pub mod SoundPlans
