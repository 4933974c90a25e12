pub mod Turns
pub mod Places
pub mod RunLaws
pub mod Table
pub mod LongLines
pub mod WholeLaws
