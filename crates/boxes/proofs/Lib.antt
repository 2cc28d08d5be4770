pub mod PathLaws
pub mod MatchLaws
pub mod BehindLaws
