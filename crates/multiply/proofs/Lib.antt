pub mod CarryLaws
pub mod MulLaws
pub mod Answers
