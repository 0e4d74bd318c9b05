pub mod File
pub mod ReadBack
pub mod OnlyFile
