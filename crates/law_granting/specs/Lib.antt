pub mod Asking
pub mod Meanwhile
pub mod Taken
