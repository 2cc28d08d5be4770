pub mod Slowly
