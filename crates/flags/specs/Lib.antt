pub mod Parity
pub mod Word
pub mod Szp
