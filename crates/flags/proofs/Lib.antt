pub mod WordLaws
pub mod SzpLaws
