-- Laws of the definitions.
pub mod SoundLaws
pub mod SpelledLaws
pub mod TextLaws
