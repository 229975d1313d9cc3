pub mod Found
pub mod Pieces
pub mod ByLines
pub mod Named
pub mod Printed
pub mod Reprinted
pub mod Refusals
