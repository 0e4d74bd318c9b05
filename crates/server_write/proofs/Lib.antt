pub mod Laws
pub mod Accepting
