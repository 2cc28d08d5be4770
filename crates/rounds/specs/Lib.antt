pub mod Round
pub mod Steps
pub mod Links
