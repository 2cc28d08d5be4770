pub mod WordsLaws
pub mod PlainLaws
pub mod SaidLaws
pub mod LaidLaws
