pub mod PreferredRun
pub mod SearchInTurn
pub mod TwoSearches
