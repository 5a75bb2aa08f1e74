mod LastToken
mod TokensOfPatterns
