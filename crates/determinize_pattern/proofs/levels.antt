pub mod Deepest
pub mod Weights
