pub mod Draws
pub mod DrawsLaws
pub mod Workload
pub mod Laws
