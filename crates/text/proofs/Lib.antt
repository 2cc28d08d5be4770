pub mod TextLaws
pub mod NumeralLaws
