pub mod KeptLaws
pub mod RanLaws
