pub mod SameRound
pub mod Drawn
pub mod Stood
pub mod SameCalls
pub mod Alike
pub mod Cases
