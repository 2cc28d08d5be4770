pub mod Determinacy
pub mod HostDeterminacy
pub mod SlowDeterminacy
