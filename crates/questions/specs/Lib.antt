pub mod Questions
pub mod Asked
