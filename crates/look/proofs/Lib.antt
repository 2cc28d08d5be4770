pub mod RowsLaws
pub mod FewPorts
pub mod ShowLaws
pub mod LookLaws
pub mod AnswerLaws
