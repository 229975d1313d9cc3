pub mod Milling
