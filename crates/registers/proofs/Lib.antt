pub mod SettleLaws
pub mod OpLaws
pub mod OverLaws
pub mod TableLaws
pub mod TiedLaws
pub mod SessionLaws
