pub mod FirstLabels
pub mod LoopFreeWalks
pub mod Steps
