pub mod LookTables
pub mod Private
pub mod StartKinds
pub mod StartRows
pub mod StartSlots
