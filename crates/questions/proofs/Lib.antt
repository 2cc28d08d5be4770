pub mod EndsLaws
pub mod QuestionsLaws
pub mod AnswersLaws
