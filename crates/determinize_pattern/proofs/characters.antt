pub mod Ascii
pub mod Boundaries
pub mod Branches
pub mod Preferred
pub mod Runs
pub mod Sweeping
pub mod Utf8
pub mod Written
