pub mod Descent
pub mod Leads
pub mod Verdict
pub mod Searches
pub mod Targets
