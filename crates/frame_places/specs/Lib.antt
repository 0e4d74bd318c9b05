pub mod Places
pub mod Round
