pub mod Result
pub mod Views
pub mod Sum
pub mod Step
pub mod Shift
