pub mod ClientStepPerforming
pub mod OtherStepPerforming
pub mod Performing
