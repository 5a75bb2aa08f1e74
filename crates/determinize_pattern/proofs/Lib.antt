pub mod characters
mod classes
mod compiled
pub mod entries
mod in_lines
mod levels
