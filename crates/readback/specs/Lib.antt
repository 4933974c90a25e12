pub mod Judge
pub mod Table
pub mod Reader
pub mod Told
pub mod Again
pub mod Whole
pub mod Quick
