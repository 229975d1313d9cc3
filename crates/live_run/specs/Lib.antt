pub mod Courses
pub mod Lives
pub mod Goals
