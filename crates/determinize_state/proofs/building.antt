pub mod AddedPatterns
pub mod RestoredMarks
pub mod UnfinishedBytes
