-- What private functions promise each other: no public contract cites these definitions.
pub mod Changes
pub mod Reading
pub mod Search
pub mod Sharing
