pub mod Shape
pub mod Parts
pub mod Places
