-- Laws of the definitions.
pub mod SiteWalkLaws
