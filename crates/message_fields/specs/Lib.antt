pub mod Fields
pub mod Questions
