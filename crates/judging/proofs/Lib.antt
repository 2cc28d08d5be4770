pub mod JudgingLaws
