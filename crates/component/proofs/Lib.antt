pub mod RecordLaws
pub mod LooseLaws
pub mod EnteringLaws
pub mod ScanLaws
pub mod Drawings
