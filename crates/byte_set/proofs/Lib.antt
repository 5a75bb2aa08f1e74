pub mod Blocks
pub mod Counts
pub mod Members
pub mod Runs
