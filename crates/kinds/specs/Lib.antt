pub mod Kinds
pub mod Given
pub mod Marks
