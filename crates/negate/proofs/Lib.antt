pub mod NegateLaws
