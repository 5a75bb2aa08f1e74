pub mod Bits
pub mod SparseSets
pub mod WordBytes
