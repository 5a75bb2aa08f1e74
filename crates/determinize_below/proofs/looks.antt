pub mod CommonLooks
pub mod LookBehindTable
pub mod LookBounds
pub mod LookSets
pub mod ReversedLooks
