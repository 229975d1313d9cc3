pub mod TrueWork
