pub mod Mend
pub mod Sifting
