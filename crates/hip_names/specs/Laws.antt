-- Laws of the definitions.
pub mod DifferLaws
pub mod MetLaws
pub mod NameLaws
pub mod NumberLaws
pub mod TableLaws
