pub mod NumbersLaws
pub mod HostLaws
pub mod LookedLaws
pub mod MendedLaws
