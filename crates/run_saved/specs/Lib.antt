pub mod ByName
