pub mod SplitHolds
pub mod MetHold
