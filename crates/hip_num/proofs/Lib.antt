pub mod Decided
pub mod HexDigits
pub mod Numerals
pub mod Quotients
pub mod Wraps
