-- What private functions promise each other: no public contract cites these definitions.
pub mod Parts
pub mod Words
