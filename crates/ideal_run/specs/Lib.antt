pub mod IdealPlans
pub mod Buckets
