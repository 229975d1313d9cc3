pub mod Few
pub mod Can
