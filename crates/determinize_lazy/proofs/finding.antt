-- Searches over the cache: what they find and leave, in a haystack and in pieces.
pub mod Lists
pub mod Marks
pub mod Reported
pub mod Searching
