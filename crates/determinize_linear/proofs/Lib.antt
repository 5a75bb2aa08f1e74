pub mod search
pub mod tokens
pub mod walks
