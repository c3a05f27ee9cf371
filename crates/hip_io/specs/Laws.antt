-- Laws of the definitions.
pub mod SinkLaws
