pub mod Names
pub mod Tables
pub mod Numbered
pub mod Laws
