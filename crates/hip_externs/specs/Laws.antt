-- Laws of the definitions.
pub mod ExternLaws
