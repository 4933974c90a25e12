pub mod Operation
pub mod Limits
pub mod Judge
