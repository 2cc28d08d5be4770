pub mod EditsLaws
pub mod Kept
pub mod MovedLaws
pub mod CallsLaws
pub mod OrderedLaws
pub mod RunLaws
pub mod AnswersLaws
