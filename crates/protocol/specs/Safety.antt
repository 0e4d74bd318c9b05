-- Every copy shown is current: an inductive invariant of all runs, and that each step keeps it.
pub mod View
pub mod Invariant
pub mod Stores
pub mod Replaced
pub mod Covering
pub mod Sending
pub mod Marks
pub mod Completing
pub mod Settling
pub mod Requests
pub mod Taking
pub mod Delivering
