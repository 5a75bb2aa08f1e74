pub mod Begins
pub mod BestAt
pub mod Left
pub mod Pairs
pub mod Places
pub mod Plains
pub mod Windows
