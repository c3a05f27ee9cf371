-- Laws of the definitions.
pub mod DistinctLaws
pub mod LayoutLaws
pub mod PartLaws
pub mod WidthLaws
