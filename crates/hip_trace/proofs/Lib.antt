pub mod HeldLaws
pub mod ReaderLaws
pub mod Tables
pub mod EndLaws
pub mod FirstLines
pub mod LineDigits
