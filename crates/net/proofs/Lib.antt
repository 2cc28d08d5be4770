pub mod LoopsLaws
pub mod MarksLaws
pub mod ClausesLaws
pub mod PassLaws
pub mod CircuitLaws
pub mod NetLaws
