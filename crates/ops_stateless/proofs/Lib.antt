pub mod UnionBuckets
pub mod Values
pub mod Standing
