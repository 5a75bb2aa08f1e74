pub mod Limits
pub mod Places
pub mod Private
pub mod Spells
pub mod Unicode
pub mod Words
