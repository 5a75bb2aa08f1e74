pub mod Common
pub mod leftmost
pub mod matches
pub mod streams
