pub mod Finding
pub mod Reading
