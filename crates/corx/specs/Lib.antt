pub mod Corx
pub mod InPlace
pub mod ChipWalk
pub mod Views
