-- Laws of the definitions.
pub mod ImageLaws
pub mod ItemLaws
pub mod LineLaws
pub mod LooseLaws
pub mod PendingLaws
