pub mod ArcsLeft
pub mod ArcsOfStates
pub mod TableRuns
pub mod TestedLists
