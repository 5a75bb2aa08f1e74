pub mod Lexers
pub mod Tokens
