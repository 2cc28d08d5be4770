pub mod Reader
pub mod Earlier
pub mod Wider
