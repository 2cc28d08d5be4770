pub mod Boxes
pub mod Naming
