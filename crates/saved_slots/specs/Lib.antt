pub mod Faults
pub mod Looking
pub mod Resting
pub mod Saving
pub mod Series
pub mod Slots
pub mod Standing
