pub mod ChecksLaws
pub mod PassesLaws
