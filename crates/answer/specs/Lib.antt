pub mod Charted
pub mod Asked
pub mod Table
pub mod Refused
