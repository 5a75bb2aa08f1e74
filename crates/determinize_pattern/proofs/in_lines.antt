pub mod Edges
pub mod FirstLines
pub mod LeftmostLines
pub mod Placed
pub mod Staying
