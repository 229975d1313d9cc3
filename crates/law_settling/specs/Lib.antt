pub mod Rests
pub mod Phased
pub mod Read
pub mod Promised
pub mod Finished
pub mod Entered
pub mod Firsts
