pub mod FirstSession
pub mod Asking
pub mod Standing
pub mod Numbers
