pub mod Planning
pub mod Sounding
