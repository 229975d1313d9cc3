pub mod Accepted
pub mod Advancing
pub mod Closing
pub mod Complete
pub mod Ordered
