pub mod Saves
pub mod Typed
