pub mod AnyByte
pub mod Arcs
pub mod Closed
pub mod Gathered
pub mod Turning
