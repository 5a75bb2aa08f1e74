pub mod BothWays
pub mod Counts
pub mod FoundStates
pub mod Recorded
pub mod StatesById
pub mod Validation
