-- Laws of the definitions.
pub mod Callable
pub mod PlanLaws
pub mod SiteOrder
pub mod Unchanged
