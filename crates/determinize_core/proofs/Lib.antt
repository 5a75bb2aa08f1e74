pub mod Common
pub mod closure
pub mod step
pub mod walk
