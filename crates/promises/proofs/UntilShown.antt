-- 02, A1: how long until a read is shown.
pub mod Steps
pub mod Phases
pub mod Moves
pub mod InTime
pub mod Examples
pub mod Premises
pub mod OfCalls
