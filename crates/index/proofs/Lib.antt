pub mod NumberingLaws
pub mod WideningLaws
pub mod IndexLaws
