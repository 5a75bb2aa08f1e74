pub mod Automaton
pub mod Bytes
pub mod Dfa
pub mod Least
pub mod Meaning
pub mod Private
pub mod Reading
pub mod Table
