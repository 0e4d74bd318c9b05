pub mod Explained
pub mod Followed
