pub mod Private
pub mod Reading
