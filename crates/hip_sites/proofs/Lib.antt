mod Put
pub mod SiteOrder
