pub mod Keeping
pub mod Sending
pub mod PoolSending
