pub mod AdjustLaws
