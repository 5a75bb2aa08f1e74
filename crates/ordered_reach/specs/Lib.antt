pub mod Laws
pub mod Paths
pub mod Reach
pub mod Runs
pub mod StackSearch
pub mod Walks
