-- Laws of the definitions.
pub mod FreshLaws
pub mod ReachLaws
