pub mod Behind
pub mod Steps
pub mod Links
pub mod Downs
pub mod Releasing
pub mod Healed
pub mod Journal
pub mod Opening
