pub mod Common
pub mod Limits
pub mod building
pub mod kinds
pub mod prefixes
pub mod reversing
pub mod runs
