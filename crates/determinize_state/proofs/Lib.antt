pub mod Common
pub mod building
pub mod encoding
pub mod values
