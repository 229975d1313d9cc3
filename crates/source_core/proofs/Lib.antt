pub mod Logs
pub mod Sends
pub mod Staying
pub mod Subscribed
