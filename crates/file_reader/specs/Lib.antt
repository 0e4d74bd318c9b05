pub mod File
pub mod Steps
pub mod Reading
