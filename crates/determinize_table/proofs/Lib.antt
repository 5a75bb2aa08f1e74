pub mod Changes
pub mod ClassRuns
pub mod Common
pub mod Loops
pub mod TableRows
pub mod Transitions
pub mod Values
pub mod Writing
