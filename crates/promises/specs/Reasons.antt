-- 02, A8: why a read is answered "ask first".
pub mod Numbers
pub mod Events
pub mod Reason
pub mod Worth
pub mod Fates
pub mod Told
pub mod Explains
pub mod ByAnswer
pub mod Lasts
pub mod Examples
