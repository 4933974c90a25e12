pub mod CordLaws
pub mod Turning
pub mod RoadLaws
