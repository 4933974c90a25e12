pub mod CorxLaws
pub mod ChipLaws
