-- Walks through the cache, and what they leave.
pub mod CachedWalks
pub mod Plenty
