pub mod Mills
pub mod Milling
pub mod Sameness
pub mod Reads
pub mod States
pub mod Views
