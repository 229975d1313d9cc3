pub mod Phases
pub mod Reaching
pub mod Noting
pub mod Steps
pub mod Lives
pub mod Work
