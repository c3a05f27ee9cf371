-- Laws of the definitions.
pub mod WithinLaws
pub mod PendingLaws
