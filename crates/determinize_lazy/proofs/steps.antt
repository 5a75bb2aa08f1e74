-- One step: where it starts, what the rule keeps, and what is true of a cache after it.
pub mod Cursors
pub mod FewStates
pub mod Rule
pub mod Sharing
pub mod Starts
