-- Definitions of contracts between private functions. No public contract cites them.
pub mod Groups
pub mod Marking
pub mod PatternBytes
pub mod SmallBytes
