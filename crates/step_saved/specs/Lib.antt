pub mod Sound
pub mod Plan
pub mod Applied
