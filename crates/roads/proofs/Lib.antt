pub mod ToldLaws
pub mod Rows
pub mod RoadsPage
