-- What private functions promise each other: no public contract cites these definitions.
pub mod Building
pub mod Minimizing
pub mod Order
pub mod Partition
pub mod Rows
pub mod Scans
pub mod Searching
