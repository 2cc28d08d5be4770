pub mod PartsLaws
pub mod NamedLaws
pub mod RowsLaws
pub mod SizesLaws
pub mod SameLaws
pub mod AnswerLaws
