pub mod JudgeLaws
pub mod LineLaws
pub mod NextLaws
pub mod TableLaws
pub mod AgainLaws
pub mod PortLaws
pub mod WholeLaws
pub mod RunLaws
