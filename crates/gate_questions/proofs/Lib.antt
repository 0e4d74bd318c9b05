pub mod Laws
pub mod GrowthLaws
