pub mod Opened
pub mod Refused
pub mod Versions
pub mod Values
pub mod Accepted
pub mod Literals
pub mod Alike
