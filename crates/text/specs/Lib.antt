pub mod Digits
pub mod Fields
pub mod Plain
pub mod Lanes
pub mod Written
pub mod Lines
