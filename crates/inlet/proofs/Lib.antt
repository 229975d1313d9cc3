pub mod Dropping
mod Folds
pub mod Standing
mod Taking
mod Upto
mod Whole
