-- Definitions of contracts between private functions. No public contract cites them.
pub mod Clearing
pub mod Partition
pub mod Sorting
pub mod Sparse
