pub mod AfterPrefix
pub mod Parts
pub mod Skips
