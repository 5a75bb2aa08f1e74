pub mod Ends
pub mod Language
pub mod Leaves
pub mod Leftmost
pub mod Loops
pub mod Parts
pub mod RunsInOrder
