pub mod CaptureCycles
pub mod ClosureSteps
pub mod EmptySearch
