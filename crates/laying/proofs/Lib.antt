pub mod FlatWires
pub mod PassesLaws
pub mod PortsLaws
pub mod StandingLaws
pub mod WiresLaws
