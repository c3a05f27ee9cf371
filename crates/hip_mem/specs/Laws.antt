-- Laws of the definitions.
pub mod AreasLaws
pub mod BytesLaws
