pub mod Cases
pub mod Common
pub mod graph
pub mod lists
pub mod runs
pub mod walks
