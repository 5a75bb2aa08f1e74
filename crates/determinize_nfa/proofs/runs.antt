pub mod Choices
pub mod Mirrors
pub mod SameChoices
pub mod Shifts
