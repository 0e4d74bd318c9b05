pub mod Laws
pub mod OutputLaws
pub mod Number
pub mod Written
pub mod Report
