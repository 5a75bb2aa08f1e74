pub mod Builder
pub mod Laws
pub mod Leftmost
pub mod Prefix
pub mod Private
pub mod Reversal
pub mod Runs
