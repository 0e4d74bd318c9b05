pub mod Records
pub mod Bytes
pub mod Round
pub mod Sizes
pub mod Room
