pub mod Compare
pub mod Told
