pub mod Occurring
pub mod StartKinds
pub mod StartSlots
