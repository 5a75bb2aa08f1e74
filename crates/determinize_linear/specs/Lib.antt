pub mod Cursors
pub mod Laws
pub mod Private
pub mod Tokens
pub mod Tries
