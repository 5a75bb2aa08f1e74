-- Definitions of contracts between private functions. No public contract cites them.
pub mod LookSets
