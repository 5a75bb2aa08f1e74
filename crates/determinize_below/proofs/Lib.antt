pub mod Common
pub mod Exits
pub mod Moved
pub mod Written
pub mod looks
pub mod nfas
pub mod sets
