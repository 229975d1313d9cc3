pub mod Fragments
pub mod Whole
