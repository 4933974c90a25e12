pub mod Round
pub mod Cord
pub mod ByRoad
pub mod Views
