-- Laws of the definitions.
pub mod UseLaws
