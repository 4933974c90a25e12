pub mod Record
pub mod Counted
