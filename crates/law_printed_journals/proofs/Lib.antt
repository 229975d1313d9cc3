pub mod Printable
pub mod PrintedInputs
pub mod Ranged
pub mod FramedInputs
