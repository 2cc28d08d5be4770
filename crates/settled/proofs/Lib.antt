pub mod Drawn
pub mod Rounds
pub mod Settling
pub mod Stored
pub mod Cases
