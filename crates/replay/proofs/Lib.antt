pub mod RecordLaws
pub mod CountLaws
