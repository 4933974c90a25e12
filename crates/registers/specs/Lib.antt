pub mod Over
pub mod Table
pub mod Tied
pub mod Session
