pub mod Shapes
pub mod Layout
pub mod Values
pub mod Marks
pub mod Lanes
pub mod Svg
