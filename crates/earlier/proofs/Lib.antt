pub mod TakenLaws
pub mod AlikeHolds
pub mod FirstHolds
pub mod EarlierHolds
pub mod WiderHolds
pub mod Votes
pub mod Snow
