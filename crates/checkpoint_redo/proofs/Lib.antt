pub mod Adding
mod Series
