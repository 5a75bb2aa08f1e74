pub mod Brackets
pub mod Following
pub mod Letters
pub mod Names
pub mod Reading
pub mod Sets
