pub mod AlwaysHeld
pub mod Calls
pub mod ReasonsLaws
pub mod SavedRun
pub mod UntilShown
pub mod WorkedRuns
