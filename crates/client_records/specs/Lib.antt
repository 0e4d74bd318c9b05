pub mod Requests
pub mod Stores
