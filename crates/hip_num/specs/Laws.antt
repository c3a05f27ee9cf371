-- Laws of the definitions.
pub mod TextLaws
