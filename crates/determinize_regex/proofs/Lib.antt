pub mod Boundaries
pub mod Common
pub mod FoundOfPatterns
pub mod ListsOfPatterns
pub mod SetsOfPatterns
pub mod Spelling
pub mod Splitting
pub mod StreamsOfPatterns
