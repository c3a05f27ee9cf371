-- Laws of the definitions.
pub mod AssignedExact
pub mod CalleeLaws
pub mod CheckLaws
pub mod ConstLaws
pub mod Decided
pub mod EqualLaws
pub mod GivenLaws
pub mod NameLaws
pub mod NumberingLaws
pub mod PlaceExact
pub mod SoundExact
pub mod SoundLaws
pub mod SpelledLaws
pub mod TypeLaws
