pub mod Tokens
pub mod TokensAreOne
