-- Laws of the definitions.
pub mod ActionLaws
pub mod StartLaws
