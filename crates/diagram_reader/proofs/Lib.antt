pub mod Numbered
pub mod OperatorLines
pub mod TakenLines
