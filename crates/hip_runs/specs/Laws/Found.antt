-- Laws of what a run finds.
pub mod FoundLaws
pub mod LooseBytes
pub mod ReportLaws
pub mod TagLaws
