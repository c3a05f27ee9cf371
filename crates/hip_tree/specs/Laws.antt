pub mod Levels
pub mod SiteLaws
