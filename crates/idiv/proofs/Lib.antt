pub mod IdivLaws
