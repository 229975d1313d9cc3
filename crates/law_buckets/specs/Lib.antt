pub mod Laws
pub mod Series
