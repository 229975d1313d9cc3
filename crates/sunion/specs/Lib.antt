pub mod Clocks
pub mod Laws
pub mod Ports
pub mod Unions
pub mod Values
