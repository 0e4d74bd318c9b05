pub mod Reading
pub mod Rules
pub mod Noting
