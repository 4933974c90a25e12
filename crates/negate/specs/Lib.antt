pub mod Negate
pub mod Views
