-- Laws of the definitions.
pub mod DecidedLaws
pub mod FrontLaws
pub mod GivenLaws
pub mod HeaderLaws
pub mod LineLaws
pub mod MisfitLaws
pub mod RangeLaws
pub mod TraceLaws
pub mod WrittenLaws
