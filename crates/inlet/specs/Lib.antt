pub mod Batches
pub mod Drafts
pub mod Forgotten
pub mod Ordered
