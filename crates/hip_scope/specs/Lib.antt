pub mod Growth
pub mod Grown
pub mod Known
pub mod Scopes
pub mod PhiNumbers
pub mod Listed
