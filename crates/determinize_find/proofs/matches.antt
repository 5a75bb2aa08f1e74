pub mod InputMatches
pub mod NextMatch
pub mod OneList
