pub mod Flags
pub mod Divide
pub mod Finish
pub mod Manual
pub mod StepLog
pub mod Views
