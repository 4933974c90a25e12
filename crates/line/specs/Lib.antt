pub mod One
pub mod Table
pub mod Run
pub mod Placed
pub mod Whole
