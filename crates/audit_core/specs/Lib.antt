pub mod Audits
pub mod Judging
pub mod Meanings
