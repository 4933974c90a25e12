pub mod Views
pub mod Routines
pub mod Multiply
pub mod Manual
