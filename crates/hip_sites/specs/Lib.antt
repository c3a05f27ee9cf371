pub mod SiteWalk
pub mod Laws
