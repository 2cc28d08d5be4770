pub mod RemainderLaws
pub mod RulesLaws
pub mod FoldLaws
pub mod UpdateLaws
pub mod MovedLaws
pub mod FitLaws
pub mod EvaluateLaws
