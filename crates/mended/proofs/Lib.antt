pub mod Parts
pub mod MakesUpHolds
pub mod AcceptedHolds
pub mod Numbered
pub mod IdenticalHolds
pub mod NeverHolds
pub mod Cases
