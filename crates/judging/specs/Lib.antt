pub mod Judged
pub mod Steps
