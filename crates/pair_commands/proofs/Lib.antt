pub mod Readers
mod Texts
