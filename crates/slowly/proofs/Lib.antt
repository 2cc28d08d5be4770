pub mod SlowlyLaws
