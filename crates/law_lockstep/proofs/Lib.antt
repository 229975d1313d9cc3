pub mod Tidy
pub mod Order
pub mod Tellings
pub mod Hearing
pub mod Waiting
pub mod Seeing
pub mod Heard
