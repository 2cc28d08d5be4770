pub mod Determined
pub mod HostDetermined
pub mod SlowDetermined
