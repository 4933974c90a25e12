pub mod Tight
pub mod Numbers
