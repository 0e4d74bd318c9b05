pub mod Ran
pub mod Listed
pub mod FileAgrees
