-- Laws of what a machine's memory and cache lines represent.
pub mod ShownLaws
pub mod ValidLaws
