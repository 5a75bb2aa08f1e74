pub mod Elements
pub mod Lexicographic
pub mod NewNodes
pub mod Pairs
pub mod Pieces
pub mod Prefixes
pub mod SameNewNodes
