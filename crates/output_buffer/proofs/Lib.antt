mod Leasts
mod Numbered
pub mod Standing
