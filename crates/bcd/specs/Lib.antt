pub mod Adjust
pub mod Ascii
pub mod Decimal
