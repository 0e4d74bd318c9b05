pub mod Completing
pub mod Settling
