pub mod Followed
pub mod Longest
pub mod Preferred
pub mod Rest
pub mod Starts
pub mod Unset
pub mod Walked
