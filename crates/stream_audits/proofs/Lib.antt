pub mod Ideals
pub mod Words
pub mod Judged
