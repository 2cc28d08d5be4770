pub mod KeptLaws
pub mod CopyLaws
pub mod CopiesLaws
pub mod PartsLaws
pub mod SiftLaws
pub mod MendLaws
pub mod AnswerLaws
