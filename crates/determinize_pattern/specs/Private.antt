pub mod Characters
pub mod Compiling
pub mod Dropping
pub mod Entries
pub mod FirstClasses
pub mod Scanning
pub mod Words
