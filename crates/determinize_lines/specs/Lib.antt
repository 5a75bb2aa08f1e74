pub mod Blocks
pub mod Finders
pub mod Private
pub mod Texts
