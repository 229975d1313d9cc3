pub mod Signs
pub mod Strips
pub mod Text
