pub mod Digits
pub mod Sum
pub mod Judge
pub mod Packed
pub mod Told
pub mod Byte
pub mod Halves
