pub mod Number
pub mod Written
pub mod Report
