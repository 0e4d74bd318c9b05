pub mod AlwaysHeld
pub mod Calls
pub mod Reasons
pub mod SavedRun
pub mod UntilShown
pub mod WorkedRuns
