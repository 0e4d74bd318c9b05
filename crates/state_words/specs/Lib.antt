pub mod Fields
pub mod Rows
pub mod View
pub mod Saved
pub mod LiveRows
