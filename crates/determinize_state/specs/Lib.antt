pub mod Building
pub mod Private
pub mod Equality
pub mod Recording
pub mod Spelling
pub mod Value
pub mod Varint
