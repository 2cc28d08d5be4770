pub mod KindsLaws
pub mod ObeysLaws
pub mod GivenLaws
