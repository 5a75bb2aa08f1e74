-- What private functions promise each other, and what lemmas say of a text that is searched in two
-- parts: no public contract cites these definitions.
pub mod Interned
pub mod Later
