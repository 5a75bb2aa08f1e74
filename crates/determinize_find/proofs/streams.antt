pub mod Begun
pub mod Rests
pub mod Steps
