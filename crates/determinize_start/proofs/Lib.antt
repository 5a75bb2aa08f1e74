pub mod Common
pub mod kinds
pub mod tables
