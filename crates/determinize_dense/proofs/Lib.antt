pub mod Along
mod Building
mod Common
mod Distances
mod FirstRows
mod IdleStates
mod Least
mod Listing
mod Lists
mod Merging
mod Offsets
mod Ordering
mod Pigeonhole
mod Reached
mod Refining
mod Searching
mod Simulation
mod Splitting
mod Staying
pub mod Stepping
mod Writing
