pub mod Counting
pub mod Events
pub mod Handing
pub mod Lending
pub mod Opening
pub mod Parts
pub mod Slots
pub mod Telling
