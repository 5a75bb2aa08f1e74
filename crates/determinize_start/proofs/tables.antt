pub mod KnownSet
pub mod NoAssertions
pub mod OpenedSet
pub mod StepTables
pub mod TrueTables
pub mod WordBytes
