pub mod Choosing
mod Places
