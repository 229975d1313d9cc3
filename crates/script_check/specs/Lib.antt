pub mod Judging
pub mod Locals
pub mod Rooms
pub mod Behind
