pub mod Blank
pub mod Found
pub mod Noted
pub mod Stepping
pub mod Outermost
pub mod Plainly
pub mod Sighted
pub mod Looked
