pub mod Laid
pub mod Laying
