pub mod CompareLaws
pub mod Rows
pub mod ListPage
