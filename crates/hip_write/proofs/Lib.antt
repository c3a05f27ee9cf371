pub mod Consts
pub mod ListTexts
pub mod Regrouped
