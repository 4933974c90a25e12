pub mod Idiv
pub mod Views
