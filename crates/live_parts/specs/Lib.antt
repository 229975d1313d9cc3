pub mod Moments
pub mod Inboxes
pub mod Dues
