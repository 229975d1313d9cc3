pub mod Names
pub mod Shares
