pub mod Keeping
pub mod Looks
pub mod Tellings
pub mod Opening
pub mod SampleTold
pub mod TakenItems
