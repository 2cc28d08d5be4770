pub mod LastLaws
pub mod Shows
pub mod AcceptedLook
pub mod ReachedMatch
pub mod Boxes
pub mod Cases
